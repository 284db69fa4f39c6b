pub mod Alike
pub mod Taken
pub mod Heard
pub mod Alone
pub mod Told
pub mod Carried
