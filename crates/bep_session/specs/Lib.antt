pub mod Faults
pub mod Times
pub mod Ids
pub mod Events
pub mod Sessions
pub mod Progress
pub mod Runs
