pub mod Serving
pub mod EachResponse
