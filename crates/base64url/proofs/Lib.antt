pub mod Table
pub mod Run
pub mod Groups
pub mod Turns
pub mod Count
pub mod Read
pub mod Write
pub mod Theorems
