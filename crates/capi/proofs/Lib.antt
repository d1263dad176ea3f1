pub mod Behind
pub mod Fitting
pub mod Hosts
pub mod Rows
pub mod Slots
pub mod Steps
pub mod Values
pub mod Wholes
