pub mod Groups
pub mod Texts
pub mod Turns
pub mod Words
