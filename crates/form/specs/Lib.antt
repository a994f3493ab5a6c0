pub mod Verdict
pub mod Regex
pub mod Matches
pub mod Listings
pub mod Machine
pub mod Writing
