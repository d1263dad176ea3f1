pub mod Used
pub mod Opened
pub mod OnDisk
pub mod Plain
