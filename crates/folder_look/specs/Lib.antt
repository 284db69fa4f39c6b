-- what stood in a directory, and what changed
pub mod Tables
-- when a name that changed is scanned
pub mod Unrests
-- how often a folder is looked at
pub mod Rhythms
