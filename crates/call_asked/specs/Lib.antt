pub mod Asked
pub mod Sound
pub mod Answers
