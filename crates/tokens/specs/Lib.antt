pub mod Code
pub mod Row
