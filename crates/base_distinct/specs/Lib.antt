pub mod Apart
pub mod Chains
pub mod Lacks
pub mod Passed
