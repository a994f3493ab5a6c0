pub mod Step
pub mod Ending
pub mod Inner
