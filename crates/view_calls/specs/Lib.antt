pub mod Sights
pub mod Traces
pub mod inner
pub mod meaning
