pub mod Switch
pub mod Input
