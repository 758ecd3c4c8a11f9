-- What describes parts of the crate alone.
pub mod Places
pub mod Remaining
pub mod Resting
pub mod Sleeping
pub mod Start
pub mod Subthreads
pub mod Working
