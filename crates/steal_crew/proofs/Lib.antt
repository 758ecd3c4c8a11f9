pub mod Claimed
pub mod Counted
pub mod Holding
