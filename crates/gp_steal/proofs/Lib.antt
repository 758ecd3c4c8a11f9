pub mod FactsHold
pub mod Hands
pub mod Looks
pub mod Stages
pub mod StealHands
pub mod Steps
