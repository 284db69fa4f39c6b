-- the rules
pub mod Histories
pub mod Shared
pub mod Adds
pub mod RecordedFolders
pub mod LoneStates
-- how calls say the rules
pub mod Calls
pub mod Codes
pub mod Faults
-- worked rows
pub mod Samples
