pub mod OneBorrower
pub mod OneKeeper
pub mod FourBorrowers
pub mod OnePart
pub mod Played
pub mod Onward
pub mod Shows
