pub mod Basis
pub mod Whole
