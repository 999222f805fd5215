pub mod Blank
pub mod Exprs
pub mod Lets
pub mod Rows
pub mod Strength
