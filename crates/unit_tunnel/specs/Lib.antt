pub mod Numbering
pub mod Tunnel
