pub mod Built
pub mod Cut
pub mod Examples
