pub mod Making
pub mod Addressed
pub mod Turns
