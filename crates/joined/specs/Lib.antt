pub mod Calls
pub mod Begins
pub mod Sections
