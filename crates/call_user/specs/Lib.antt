pub mod User
pub mod OneRecord
pub mod Parcel
