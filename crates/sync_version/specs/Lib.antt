pub mod Versions
pub mod Computed
pub mod Faults
pub mod Walks
