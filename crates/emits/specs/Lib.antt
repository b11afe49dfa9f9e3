pub mod BlockOf
pub mod Target
