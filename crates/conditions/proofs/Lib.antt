pub mod Gathers
pub mod Agree
