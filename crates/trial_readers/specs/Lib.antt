pub mod Said
pub mod Decoding
