pub mod Records
pub mod SoFar
