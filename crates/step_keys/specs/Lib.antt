pub mod Survey
pub mod Check
pub mod Unclaimed
