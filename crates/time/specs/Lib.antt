pub mod Effect
pub mod Sweep
