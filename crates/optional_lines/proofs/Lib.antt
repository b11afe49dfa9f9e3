pub mod Optionals
