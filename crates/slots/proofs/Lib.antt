-- What each holds is said in its first lines.
pub mod Parting
pub mod Drawing
pub mod Cases
