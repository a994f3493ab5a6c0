pub mod Outcomes
pub mod Input
