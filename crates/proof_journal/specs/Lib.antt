-- what stands in a journal
pub mod Appended
-- and what it is to be recovered
pub mod Own
-- what is saved at once
pub mod Batches
