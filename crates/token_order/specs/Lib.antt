pub mod Owning
pub mod Spans
pub mod Standing
pub mod Turned
pub mod View
