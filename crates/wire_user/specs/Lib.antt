pub mod Header
pub mod Extensions
pub mod Stretch
pub mod User
pub mod Part
