pub mod Among
pub mod Lists
pub mod Names
pub mod Screened
