-- which plans of pulls are on the disk, and what peers may have been told
pub mod Claims
pub mod Plans
