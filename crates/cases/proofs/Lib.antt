pub mod Numerals
pub mod Moves
pub mod Windows
