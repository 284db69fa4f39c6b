pub mod Left
pub mod Workers
