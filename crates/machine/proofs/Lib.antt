pub mod Cuts
pub mod Turns
pub mod Wakes
pub mod Reread
pub mod Comes
