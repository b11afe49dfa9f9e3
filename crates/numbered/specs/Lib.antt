pub mod Plainly
pub mod Digits
pub mod Faring
pub mod Numbers
