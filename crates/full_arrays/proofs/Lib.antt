pub mod Statements
pub mod Full
