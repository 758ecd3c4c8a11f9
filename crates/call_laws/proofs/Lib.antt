pub mod Logged
pub mod Parts
pub mod RunExample
pub mod RunWords
pub mod SevenSpells
