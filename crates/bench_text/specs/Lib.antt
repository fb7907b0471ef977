pub mod Fields
pub mod Lines
pub mod Prints
pub mod Sizes
