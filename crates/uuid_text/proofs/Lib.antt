pub mod Tests
pub mod Hex
pub mod Row
pub mod Letters
pub mod Made
pub mod Walk
pub mod Spelled
pub mod Theorems
