pub mod Escaped
