pub mod Numbering
pub mod Rules
pub mod Sends
pub mod Durables
pub mod Volatiles
pub mod Keepers
pub mod Laws
