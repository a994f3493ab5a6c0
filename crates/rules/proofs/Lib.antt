pub mod Fields
pub mod Resends
