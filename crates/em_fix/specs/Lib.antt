pub mod Words
pub mod Manifest
pub mod Source
pub mod Report
pub mod Lines
pub mod Codes
pub mod Migration
pub mod Answers
