pub mod Safe
pub mod Enclosing
pub mod Standing
