pub mod Carries
pub mod Reached
pub mod Sents
