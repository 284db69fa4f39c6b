pub mod Groups
pub mod Sound
pub mod Complete
pub mod Readings
pub mod Places
pub mod Varints
pub mod Lemmas
