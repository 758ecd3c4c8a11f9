pub mod Flying
pub mod Taken
