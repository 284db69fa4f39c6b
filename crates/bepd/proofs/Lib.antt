pub mod Counting
pub mod Keeping
pub mod Framing
pub mod Reading
pub mod Reports
pub mod Answering
pub mod Matching
pub mod Running
