pub mod Asks
pub mod Counts
pub mod Requests
pub mod Given
pub mod Silence
