-- Numbered is to be read first; the others follow from the statements down. What each holds is said in its first lines.
pub mod Numbered
pub mod Cases
pub mod Records
pub mod Counted
pub mod Names
pub mod Texts
pub mod Steps
pub mod Conditions
pub mod Unlike
pub mod Listings
