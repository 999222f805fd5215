pub mod Causes
pub mod Held
pub mod Answers
pub mod Memory
pub mod Changes
pub mod Adapters
