-- What describes parts of the crate alone.
pub mod Attempts
pub mod Hand
pub mod Leaving
pub mod Moving
pub mod Places
pub mod Running
pub mod Turning
