pub mod Calendar
pub mod Instant
pub mod Plain
pub mod Reading
