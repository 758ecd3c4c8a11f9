pub mod Laws
pub mod Seen
pub mod meaning
