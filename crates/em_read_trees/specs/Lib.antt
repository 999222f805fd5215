pub mod ExprKnots
pub mod ItemKnot
