pub mod Elements
pub mod WholeBytes
pub mod Stated
pub mod Targets
pub mod Verdicts
pub mod Fine
