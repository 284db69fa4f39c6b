mod Putting
mod Opening
mod Giving
