pub mod Links
pub mod Requests
pub mod Told
