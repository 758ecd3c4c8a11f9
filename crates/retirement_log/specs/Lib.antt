pub mod Laws
pub mod Telling
pub mod meaning
