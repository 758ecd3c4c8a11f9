pub mod Answers
pub mod Commands
pub mod Decided
pub mod InputFiles
pub mod Refusals
pub mod inner
pub mod meaning
