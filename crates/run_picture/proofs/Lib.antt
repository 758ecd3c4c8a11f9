pub mod Coming
pub mod Folds
pub mod Pictures
pub mod Takes
