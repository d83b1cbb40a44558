pub mod Memory
pub mod Turns
pub mod Requests
pub mod Acts
pub mod Law
