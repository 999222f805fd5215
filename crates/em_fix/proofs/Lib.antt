pub mod Written
pub mod WordLists
pub mod Manifests
pub mod Prepared
pub mod Fixed
pub mod Decided
pub mod Sources
