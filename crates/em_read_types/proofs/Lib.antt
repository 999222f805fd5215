pub mod Editions
pub mod PatGroups
pub mod PatSteps
pub mod TypeSteps
