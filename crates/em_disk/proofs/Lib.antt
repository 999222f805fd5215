pub mod Entries
pub mod Afters
pub mod Streams
