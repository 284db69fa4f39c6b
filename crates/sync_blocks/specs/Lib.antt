pub mod BlockList
pub mod Faults
pub mod Groups
pub mod Reading
pub mod Sizes
pub mod Tiling
