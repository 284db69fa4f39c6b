-- what a journal tells of a folder
pub mod Told
-- what is recovered of it
pub mod Recovered
-- and why something is not
pub mod Clear
-- records of this device among what is announced
pub mod Laid
-- what becomes of plans, and which of them are looked at
pub mod Settled
pub mod Open
-- where finished records are
pub mod Places
