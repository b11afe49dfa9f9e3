pub mod Rests
pub mod Fines
