pub mod Commands
pub mod Folders
pub mod Read
pub mod Refused
pub mod Status
