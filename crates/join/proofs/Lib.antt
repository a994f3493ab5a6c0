pub mod Fields
pub mod Joining
pub mod Theorems
pub mod Kept
