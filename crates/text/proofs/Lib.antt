pub mod Puts
pub mod Digits
pub mod Table
pub mod Widths
pub mod Wrotes
