pub mod Grammar
pub mod Filing
pub mod Pulling
pub mod Told
pub mod Played
