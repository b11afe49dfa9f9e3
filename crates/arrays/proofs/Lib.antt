pub mod Modifiers
