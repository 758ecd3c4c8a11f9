-- What the top calls promise is said in the words of these definitions, and each of them is reached: so these have to be believed.
pub mod Answers
pub mod Case
pub mod Commands
pub mod Headline
pub mod InputFiles
pub mod Journals
pub mod Laws
pub mod Lines
pub mod PlainText
pub mod Recovering
pub mod RunCommands
pub mod SoakFiles
pub mod Texts
pub mod Work
