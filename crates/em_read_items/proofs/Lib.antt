pub mod Impls
pub mod Sigs
