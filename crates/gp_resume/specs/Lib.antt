pub mod Laws
pub mod Resuming
pub mod Starting
pub mod inner
pub mod meaning
