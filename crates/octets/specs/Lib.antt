pub mod Ascii
pub mod Bytes
pub mod Build
pub mod Decimal
pub mod Numbers
pub mod Parts
pub mod Lists
pub mod Integers
