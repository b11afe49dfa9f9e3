pub mod Passes
pub mod Targets
pub mod Records
pub mod Demands
