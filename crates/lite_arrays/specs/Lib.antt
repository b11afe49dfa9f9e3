pub mod Statements
pub mod Shapes
