pub mod Turns
pub mod KindNumbers
