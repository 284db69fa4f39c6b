pub mod Dir
pub mod Modes
pub mod Times
pub mod Skips
pub mod Versions
