pub mod Chains
pub mod Endings
pub mod Holders
pub mod Linking
pub mod SeenSteps
