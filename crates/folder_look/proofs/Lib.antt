pub mod TableLemmas
pub mod OrderLemmas
pub mod LawLemmas
