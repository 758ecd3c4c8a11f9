pub mod inner
pub mod JournalLines
pub mod meaning
pub mod TraceLaws
