pub mod Changes
pub mod Waits
pub mod Ways
