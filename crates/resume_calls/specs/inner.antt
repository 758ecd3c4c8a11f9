-- What describes parts of the crate alone.
pub mod Halting
pub mod Resting
