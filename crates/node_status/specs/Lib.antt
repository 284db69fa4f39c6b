pub mod Numbers
pub mod Times
pub mod Words
pub mod Rows
pub mod Screen
pub mod Page
