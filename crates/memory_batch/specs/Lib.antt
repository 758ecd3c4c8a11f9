pub mod Comes
pub mod Files
pub mod Runs
pub mod Sourced
