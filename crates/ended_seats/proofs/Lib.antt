pub mod Idle
pub mod Walks
