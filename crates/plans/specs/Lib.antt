pub mod Planned
pub mod Told
pub mod Plans
