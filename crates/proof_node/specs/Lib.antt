-- what a law says of lists
pub mod Firsts
-- of what a run leaves and takes over
pub mod Numbers
pub mod Takeovers
-- of bests that are chosen anew
pub mod NewBests
-- of pulls
pub mod Begins
