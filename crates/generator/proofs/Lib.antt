-- What each holds is said in its first lines.
pub mod Printed
pub mod Records
