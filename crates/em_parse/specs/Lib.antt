pub mod Answers
pub mod Calls
pub mod Decided
pub mod Laws
pub mod Parts
