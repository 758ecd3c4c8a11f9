pub mod Apart
pub mod Slashes
