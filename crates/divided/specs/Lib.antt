pub mod Undivided
pub mod Checks
pub mod Faring
