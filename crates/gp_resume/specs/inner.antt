-- What describes parts of the crate alone.
pub mod Course
pub mod Flights
pub mod Fronts
pub mod Going
pub mod Handed
pub mod Replayed
pub mod RowsRead
pub mod Turning
pub mod Waves
