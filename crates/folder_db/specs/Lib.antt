-- a folder in an index, and how often it chose a best
pub mod Indexed
