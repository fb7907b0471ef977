pub mod Walk
pub mod Search
pub mod Overrun
pub mod Imsi
pub mod Tunnel
pub mod Kinds
pub mod Refusal
pub mod Readers
