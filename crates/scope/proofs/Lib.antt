pub mod Duplicates
pub mod Unknown
