pub mod inner
pub mod meaning
