pub mod Amount
pub mod Rest
pub mod Digits
