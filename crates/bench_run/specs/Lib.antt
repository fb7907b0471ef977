pub mod Run
pub mod Taken
pub mod Replies
pub mod Whole
