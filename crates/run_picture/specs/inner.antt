-- What describes parts of the crate alone.
pub mod Drawn
pub mod Tellings
