pub mod Lines
pub mod Outside
pub mod Meaning
pub mod Ends
pub mod Session
