pub mod Found
pub mod Theorems
