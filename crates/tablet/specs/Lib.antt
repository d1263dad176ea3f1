pub mod Calls
pub mod Started
