pub mod MarkedStores
pub mod Moved
pub mod Paths
pub mod Times
