pub mod States
pub mod Texts
pub mod Theorems
