pub mod Rows
pub mod FourDigits
