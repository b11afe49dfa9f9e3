pub mod Parts
pub mod Agree
pub mod Fits
