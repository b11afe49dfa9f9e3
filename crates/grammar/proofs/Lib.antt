-- Every is to be read first; the others follow from the statements down. What each holds is said in its first lines.
pub mod Every
pub mod Computed
pub mod Tested
pub mod Drawing
pub mod Elements
pub mod Cases
