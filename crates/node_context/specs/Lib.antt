-- why a node did not run
pub mod Faults
-- which names are told by name
pub mod Tallies
-- why a name is left out
pub mod Skips
-- what a folder is doing
pub mod Doing
