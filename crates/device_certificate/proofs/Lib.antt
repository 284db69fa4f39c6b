pub mod Firsts
pub mod FirstLine
pub mod Found
pub mod Base64
pub mod Between
