pub mod Mixed
pub mod Records
