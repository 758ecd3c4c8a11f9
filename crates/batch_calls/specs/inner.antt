-- What describes parts of the crate alone.
pub mod Logged
pub mod Planned
pub mod Ran
pub mod Reading
pub mod Steps
pub mod Ways
