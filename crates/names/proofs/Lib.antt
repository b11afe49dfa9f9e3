pub mod Keys
pub mod Bytes
pub mod Digits
pub mod Words
pub mod Same
