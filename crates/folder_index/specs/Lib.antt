-- what an index has
pub mod Indexes
-- how it is kept
pub mod Groups
pub mod Sequences
pub mod Digests
pub mod Numbers
pub mod Latest
pub mod Devices
pub mod Locals
pub mod Chunks
pub mod NameEntries
pub mod Noted
