pub mod PatKnot
pub mod PatParts
pub mod PathParts
pub mod TypeKnot
pub mod TypeParts
