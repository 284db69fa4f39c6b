pub mod Counts
pub mod Records
pub mod Effects
pub mod Hears
pub mod Reading
pub mod Streams
