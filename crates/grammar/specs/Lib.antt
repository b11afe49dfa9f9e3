pub mod Choices
pub mod Fragments
pub mod Families
pub mod Load
pub mod Passing
