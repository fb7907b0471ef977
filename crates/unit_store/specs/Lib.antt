pub mod Row
pub mod Store
pub mod Made
pub mod Lasts
