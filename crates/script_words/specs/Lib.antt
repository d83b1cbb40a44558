pub mod Words
pub mod Payload
pub mod Verbs
pub mod Commands
