pub mod Begins
pub mod ReadBack
