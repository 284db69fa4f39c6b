pub mod BlockLists
pub mod Blocks
pub mod Filled
pub mod Groups
pub mod Tilings
