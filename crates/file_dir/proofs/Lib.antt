pub mod OrderLemmas
pub mod VersionLemmas
