pub mod Chains
pub mod Decimals
pub mod Hex
pub mod Words
pub mod Outputs
pub mod Inputs
pub mod Names
