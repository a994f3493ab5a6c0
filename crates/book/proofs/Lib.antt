pub mod Replies
pub mod Held
pub mod Ends
pub mod Decisions
