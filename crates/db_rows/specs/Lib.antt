pub mod Csv
pub mod Order
pub mod Starts
