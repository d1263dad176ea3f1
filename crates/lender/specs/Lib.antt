pub mod Numbering
pub mod Answers
pub mod Book
pub mod Rules
pub mod Replies
pub mod Replay
pub mod OnDisk
