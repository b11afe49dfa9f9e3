-- Joined is to be read first; the others follow from the statements down. What each holds is said in its first lines.
pub mod Joined
pub mod Cases
pub mod Whole
pub mod Each
pub mod Asked
pub mod Early
pub mod Entries
