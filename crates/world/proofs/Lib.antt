mod Inv
mod Move
mod Borrow
mod Leases
mod Keep
mod View
mod Calls
pub mod Files
mod Wire
mod Good
mod Hears
mod Serves
pub mod Time
mod Tick
mod Events
pub mod Whole
pub mod Batches
mod Comes
mod Cases
