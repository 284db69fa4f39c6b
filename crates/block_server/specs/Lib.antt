pub mod Served
pub mod PartsRead
pub mod PartsGiven
