pub mod ChoiceLemmas
pub mod OrderLemmas
pub mod RetryLemmas
