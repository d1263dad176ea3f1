pub mod Moments
pub mod Terms
pub mod Envelopes
pub mod Hands
pub mod Clocks
