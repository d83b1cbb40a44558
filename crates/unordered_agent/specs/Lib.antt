pub mod Machine
pub mod Fetching
pub mod Steps
