pub mod Letters
pub mod Condition
pub mod Scan
