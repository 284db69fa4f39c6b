pub mod AddressLemmas
pub mod Consistent
pub mod KeyFaults
pub mod Reading
pub mod OverlapLemmas
pub mod Steps
