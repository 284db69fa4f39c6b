pub mod Pages
pub mod Overlay
