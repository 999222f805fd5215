pub mod ExprDepths
pub mod ItemDepths
pub mod PatDepths
pub mod TypeDepths
