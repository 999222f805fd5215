pub mod Branches
pub mod Prefixes
pub mod Turns
