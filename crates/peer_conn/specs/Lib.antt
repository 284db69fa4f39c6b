pub mod Rule
pub mod Words
pub mod Sending
pub mod Configs
pub mod Turns
pub mod Indexing
pub mod Sources
