pub mod Agree
pub mod Answers
