pub mod Blanks
pub mod Ends
pub mod Lets
pub mod Rows
pub mod Singles
