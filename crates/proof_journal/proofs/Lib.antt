pub mod LastRecords
pub mod Frames
pub mod LastSequences
pub mod Points
pub mod Joins
pub mod Batches
pub mod Given
