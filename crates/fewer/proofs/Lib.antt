-- What each holds is said in its first lines.
pub mod Fewer
pub mod Passes
pub mod Tests
pub mod Kept
pub mod Rows
pub mod Widths
pub mod Cases
