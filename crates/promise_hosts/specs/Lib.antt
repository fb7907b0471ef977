pub mod Agreement
pub mod Known
