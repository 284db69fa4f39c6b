pub mod Base32
pub mod Checks
pub mod Written
pub mod Read
pub mod Found
