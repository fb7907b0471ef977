pub mod Outcome
pub mod Calls
pub mod OnSession
pub mod Kept
pub mod Others
pub mod Outside
