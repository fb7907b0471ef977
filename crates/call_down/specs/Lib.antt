pub mod Down
pub mod OneRecord
