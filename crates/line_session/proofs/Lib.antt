mod Writes
mod Lines
pub mod Sessions
