pub mod Holding
pub mod Moves
pub mod PlainRuns
pub mod Runs
pub mod View
pub mod Walking
pub mod inner
