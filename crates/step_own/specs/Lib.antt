pub mod Step
pub mod Send
