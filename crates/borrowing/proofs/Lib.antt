pub mod Same
pub mod Used
pub mod Refusals
