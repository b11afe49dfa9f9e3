pub mod Chain
pub mod Heads
