pub mod Search
pub mod Walks
pub mod Entries
pub mod Writing
pub mod Again
pub mod Sized
pub mod FieldKinds
