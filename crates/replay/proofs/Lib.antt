pub mod Marks
pub mod Agreeing
pub mod Targets
