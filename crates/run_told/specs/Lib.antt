pub mod Renders
pub mod Told
