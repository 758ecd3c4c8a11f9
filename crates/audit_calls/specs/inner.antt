-- What describes parts of the crate alone.
pub mod Trials
