pub mod Amounts
pub mod Statements
