-- the rules
pub mod Announced
pub mod States
pub mod Steps
pub mod Reads
pub mod Restores
-- how calls say the rules, and how a proof compares states
pub mod Calls
pub mod Runs
pub mod Faults
pub mod Codes
-- the plain folder's own words
pub mod Plain
pub mod PlainPulls
pub mod PlainReads
pub mod PlainScans
pub mod PlainRestores
-- worked rows
pub mod Samples
