pub mod Joins
pub mod Keeps
