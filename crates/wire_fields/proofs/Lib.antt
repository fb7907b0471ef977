pub mod Back
pub mod Ahead
