pub mod Lemmas
mod Pushes
