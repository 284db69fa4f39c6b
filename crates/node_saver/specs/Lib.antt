pub mod Frames
pub mod Saving
