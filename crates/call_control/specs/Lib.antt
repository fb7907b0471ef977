pub mod Echoes
pub mod Amends
pub mod AmendsKept
pub mod Creates
pub mod CreatesKept
pub mod Control
pub mod Kept
