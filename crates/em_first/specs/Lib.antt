pub mod Keyword
pub mod Form
pub mod Events
pub mod Reading
pub mod Sample
pub mod Laws
