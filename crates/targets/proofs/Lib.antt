pub mod Sections
pub mod Each
pub mod Agree
