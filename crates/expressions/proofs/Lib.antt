pub mod Follow
pub mod Terms
