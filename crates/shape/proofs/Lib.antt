pub mod Facts
pub mod Bounds
pub mod Names
pub mod Slots
pub mod Together
pub mod Sound
