-- what the words of the command ask for
pub mod Purposes
-- how it ends badly
pub mod Failures
