-- What describes parts of the crate alone.
pub mod Answers
pub mod Layouts
