pub mod Bodies
pub mod Writes
pub mod Unique
pub mod Reading
pub mod Readers
