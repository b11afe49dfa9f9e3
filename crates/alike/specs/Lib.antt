pub mod Without
pub mod Chosen
pub mod Retarget
