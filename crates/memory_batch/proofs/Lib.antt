mod Heads
mod Joins
mod Sinks
