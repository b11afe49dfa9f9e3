pub mod Values
pub mod Parsed
