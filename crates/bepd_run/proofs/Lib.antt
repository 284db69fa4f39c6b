pub mod PlacedLemmas
mod Beginning
pub mod Starting
mod Fronts
mod Waits
