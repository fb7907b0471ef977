pub mod Stored
pub mod Answers
pub mod Steps
pub mod Laws
pub mod Kept
