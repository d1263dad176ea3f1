pub mod Leases
pub mod Tables
pub mod Exclusion
