pub mod Places
pub mod Split
pub mod Positions
