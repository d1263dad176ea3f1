pub mod Writes
pub mod Blank
pub mod Numbers
