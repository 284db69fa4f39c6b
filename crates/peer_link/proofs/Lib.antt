pub mod Staying
mod Writing
