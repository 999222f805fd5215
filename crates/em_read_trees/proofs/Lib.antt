pub mod ExprSteps
pub mod ItemSteps
