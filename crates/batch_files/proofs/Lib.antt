pub mod BrokenFacts
pub mod CellFacts
pub mod FaultFacts
pub mod FeedFacts
pub mod ParseFacts
pub mod Passing
pub mod RowFacts
