pub mod Stands
pub mod Tests
pub mod Turns
