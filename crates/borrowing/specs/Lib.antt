pub mod Parts
pub mod Rules
pub mod Durables
pub mod Volatiles
pub mod Sends
pub mod Tablets
pub mod Used
pub mod Refusals
