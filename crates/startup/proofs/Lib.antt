pub mod Prints
pub mod Ends
pub mod Loops
pub mod Lines
pub mod Sessions
