pub mod Ends
pub mod HaltedCases
pub mod JoinedTexts
pub mod OneAsked
pub mod Pieces
pub mod Readers
pub mod Sound
