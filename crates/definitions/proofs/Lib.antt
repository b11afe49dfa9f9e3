pub mod Opened
pub mod Cases
pub mod Sections
pub mod Raws
