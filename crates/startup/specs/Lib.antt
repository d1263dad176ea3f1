pub mod Start
pub mod Prints
pub mod Serving
pub mod Loops
pub mod Lines
pub mod Sessions
pub mod Openings
