pub mod FaultNames
pub mod Content
pub mod Grammar
pub mod Reading
pub mod Fields
pub mod Places
pub mod Written
