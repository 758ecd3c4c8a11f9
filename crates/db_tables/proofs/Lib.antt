pub mod Causes
pub mod Quotes
pub mod Seen
