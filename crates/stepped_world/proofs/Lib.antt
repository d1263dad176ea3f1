mod Used
mod Inv
mod Move
mod Borrow
mod Leases
mod Keep
mod View
mod Calls
pub mod Files
mod Wire
mod Good
mod Hears
mod Serves
pub mod Time
mod Tick
mod Events
mod Comes
pub mod Whole
pub mod Batches
mod Cases
