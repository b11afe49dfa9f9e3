pub mod Paddings
