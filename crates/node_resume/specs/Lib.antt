-- what a run takes over
pub mod Resumed
-- what is shared with a peer
pub mod Shares
-- what a run leaves
pub mod Left
