pub mod Chain
pub mod Create
pub mod Change
pub mod Carried
