pub mod Failing
pub mod Turns
pub mod Received
pub mod Replying
