pub mod Entries
pub mod Tells
