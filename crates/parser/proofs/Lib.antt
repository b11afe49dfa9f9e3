pub mod Others
pub mod Turns
pub mod Drives
