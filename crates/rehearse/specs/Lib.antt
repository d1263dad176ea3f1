pub mod Played
pub mod Prints
pub mod Lines
