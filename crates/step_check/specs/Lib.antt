pub mod Digest
pub mod Ways
pub mod Summary
pub mod Over
pub mod Findings
