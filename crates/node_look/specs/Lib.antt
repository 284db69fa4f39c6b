-- whether a file is as its record says
pub mod Recorded
