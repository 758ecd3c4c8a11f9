pub mod Layouts
pub mod Readings
pub mod Showing
pub mod TraceWords
pub mod ViewCases
