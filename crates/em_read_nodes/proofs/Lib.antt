pub mod Branches
pub mod Parts
pub mod Turns
