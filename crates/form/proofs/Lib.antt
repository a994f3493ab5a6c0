pub mod Same
pub mod Meaning
pub mod Steps
pub mod Words
pub mod Judged
pub mod Places
pub mod Settled
