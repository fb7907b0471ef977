pub mod Amended
pub mod Create
pub mod Restart
pub mod Basis
pub mod Whole
