pub mod Explaining
pub mod Fronts
pub mod Outcomes
pub mod OwnCases
