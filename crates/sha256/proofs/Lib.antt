pub mod Facts
pub mod Merge
pub mod Padding
pub mod Turns
