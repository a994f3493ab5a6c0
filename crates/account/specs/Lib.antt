pub mod Position
pub mod Head
