pub mod Screens
pub mod Pieces
