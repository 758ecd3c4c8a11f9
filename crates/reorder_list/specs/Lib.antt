pub mod Entries
pub mod Places
pub mod Runnable
pub mod Stages
pub mod Watched
pub mod Touching
