pub mod OwnRequest
pub mod Session
pub mod Keep
pub mod Phase
pub mod Wide
