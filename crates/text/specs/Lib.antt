pub mod Put
pub mod Widths
pub mod Wrote
