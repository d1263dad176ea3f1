pub mod World
pub mod Runs
pub mod Promise
pub mod Laws
pub mod Cases
pub mod Batches
