pub mod Laws
pub mod LineTexts
pub mod Reading
pub mod Steps
pub mod ToldLines
pub mod inner
pub mod meaning
