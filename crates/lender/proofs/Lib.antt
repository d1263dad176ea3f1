pub mod Pairs
pub mod Books
pub mod Effects
pub mod Kept
pub mod OnDisk
pub mod Recalls
