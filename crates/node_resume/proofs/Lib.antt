pub mod Restoring
pub mod Firsts
pub mod KeptNumbers
pub mod Listed
