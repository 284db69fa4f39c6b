pub mod Told
pub mod Looks
pub mod Scans
pub mod Stops
pub mod AllNames
pub mod Ahead
