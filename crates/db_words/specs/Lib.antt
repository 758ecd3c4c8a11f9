pub mod Names
pub mod Wishes
