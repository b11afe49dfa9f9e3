-- Divided and Unlimited are to be read first; the others follow from the statements down. What each holds is said in its first lines.
pub mod Divided
pub mod Unlimited
pub mod Cases
pub mod Records
pub mod Turned
pub mod Steps
pub mod Unexcused
pub mod Listings
