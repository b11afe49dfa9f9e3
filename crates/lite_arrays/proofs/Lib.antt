pub mod Statements
pub mod Lite
