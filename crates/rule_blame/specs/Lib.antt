pub mod Blames
pub mod DeclaredNames
pub mod Points
pub mod Told
pub mod Uses
pub mod Views
pub mod Walked
