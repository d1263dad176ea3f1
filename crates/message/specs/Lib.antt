pub mod Kinds
pub mod Refusals
pub mod Format
pub mod Reading
pub mod Laws
pub mod Buffers
pub mod Directions
