pub mod Accepted
pub mod Cells
pub mod Soundness
pub mod Tables
pub mod WalkLaw
pub mod inner
