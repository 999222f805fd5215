pub mod Answers
pub mod Laws
pub mod Lines
pub mod Places
pub mod Values
