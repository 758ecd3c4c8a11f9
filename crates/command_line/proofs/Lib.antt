pub mod AskedFacts
pub mod KeepsNoLog
pub mod NamedCommands
pub mod ParseFacts
pub mod RestartsAlone
