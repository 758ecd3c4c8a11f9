pub mod Cuts
pub mod Driving
pub mod Laws
pub mod Standing
pub mod States
pub mod meaning
