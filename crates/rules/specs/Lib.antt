pub mod Answers
pub mod Calls
pub mod View
pub mod Rules
