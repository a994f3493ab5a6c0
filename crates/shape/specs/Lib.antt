pub mod Reading
pub mod Shape
pub mod Seen
pub mod Scan
pub mod Sound
