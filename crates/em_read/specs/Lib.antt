pub mod Gives
pub mod Parse
pub mod Texts
