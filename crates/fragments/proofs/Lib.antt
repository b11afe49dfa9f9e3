-- Groups, Tests, Reading and Catalogue are to be read first. What each holds is said in its first lines.
pub mod Groups
pub mod Lists
pub mod Names
pub mod Tests
pub mod Reading
pub mod Placed
pub mod Catalogue
pub mod Cases
