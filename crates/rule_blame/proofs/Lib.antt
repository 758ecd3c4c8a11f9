pub mod Appends
pub mod Blaming
pub mod NameLemmas
pub mod PointLemmas
