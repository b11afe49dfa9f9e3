pub mod Reads
pub mod Writes
pub mod Answers
