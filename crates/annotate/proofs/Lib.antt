pub mod FieldSizes
pub mod Adding
pub mod Totals
