pub mod Numbers
pub mod Grown
pub mod Closes
pub mod Codes
pub mod Advances
