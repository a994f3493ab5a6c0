pub mod Effect
pub mod Inner
