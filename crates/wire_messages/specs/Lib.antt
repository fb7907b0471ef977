pub mod Types
pub mod Messages
