pub mod Answers
pub mod Faults
pub mod Feeds
pub mod Records
pub mod meaning
