pub mod Arrivals
pub mod Lists
pub mod Shares
pub mod Told
