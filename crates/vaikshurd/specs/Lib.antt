pub mod Packed
pub mod Face
pub mod Texts
pub mod Inner
pub mod Steps
