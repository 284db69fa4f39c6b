-- the messages of a journal as tables
pub mod Tables
-- their fields
pub mod Messages
-- the bytes of a journal
pub mod Format
-- what is read of them
pub mod Reading
pub mod Runs
pub mod Journals
pub mod Cuts
pub mod Marks
