pub mod BytesLemmas
pub mod AlikeLemmas
pub mod ScanLemmas
pub mod HeardLemmas
pub mod AloneLemmas
pub mod SendLemmas
pub mod CarryLemmas
