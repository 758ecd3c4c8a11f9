pub mod Batches
pub mod Counts
pub mod Working
