pub mod Sends
pub mod Ticks
