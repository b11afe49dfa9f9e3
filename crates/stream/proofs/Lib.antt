pub mod Texts
pub mod Pieces
pub mod Steps
pub mod Same
