pub mod Verdicts
pub mod Exits
pub mod Agree
pub mod Answered
