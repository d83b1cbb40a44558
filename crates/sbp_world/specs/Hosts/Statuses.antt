pub mod Taking
pub mod Finished
pub mod Senders
