-- when a name is tried again
pub mod Retries
-- in which order names are pulled
pub mod Orders
