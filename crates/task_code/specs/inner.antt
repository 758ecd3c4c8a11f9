pub mod Tables
pub mod Scopes
pub mod Patched
pub mod Tasks
pub mod Padded
