pub mod Trailing
pub mod Agree
pub mod Fits
