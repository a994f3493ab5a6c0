pub mod Lowest
pub mod Ascending
pub mod Order
pub mod Turns
pub mod Queue
pub mod Cases
pub mod Theorems
