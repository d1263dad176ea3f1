pub mod Pairs
pub mod Durables
pub mod Promises
