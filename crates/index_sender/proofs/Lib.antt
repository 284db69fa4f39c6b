pub mod PageRecords
pub mod KeepingUp
pub mod PageRead
pub mod UpTo
