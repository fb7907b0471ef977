pub mod Limits
pub mod Names
pub mod Plan
pub mod Slots
pub mod Address
