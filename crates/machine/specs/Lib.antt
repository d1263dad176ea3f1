pub mod Gains
pub mod Outboxes
pub mod Effects
pub mod Inputs
pub mod Machines
pub mod Nodes
pub mod Openings
