-- what a state file is made of
pub mod Tables
pub mod Parts
pub mod Peers
pub mod Written
pub mod Meaning
-- how it is read
pub mod Reading
-- how programs report faults
pub mod FaultNames
