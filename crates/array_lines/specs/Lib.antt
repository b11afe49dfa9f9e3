pub mod Statements
pub mod Products
