pub mod Currency
pub mod Opening
pub mod Anew
pub mod Theorems
