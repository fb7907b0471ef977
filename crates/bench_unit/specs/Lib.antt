pub mod Ended
pub mod Plans
pub mod State
pub mod Whole
