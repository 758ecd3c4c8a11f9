pub mod Endings
pub mod meaning
