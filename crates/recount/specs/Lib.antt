pub mod History
pub mod Recount
pub mod Demand
pub mod Mission
pub mod Worked
