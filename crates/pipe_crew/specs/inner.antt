pub mod Flights
pub mod Flying
pub mod Passes
