pub mod Ends
pub mod Keys
pub mod Screened
pub mod Filling
pub mod Give
