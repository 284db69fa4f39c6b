pub mod Lists
pub mod Vectors
pub mod Pairs
pub mod Lemmas
pub mod Walks
pub mod Gathered
