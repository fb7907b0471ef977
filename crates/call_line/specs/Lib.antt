pub mod Line
pub mod Where
