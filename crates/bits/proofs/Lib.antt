pub mod Booleans
pub mod Caps
pub mod Coding
