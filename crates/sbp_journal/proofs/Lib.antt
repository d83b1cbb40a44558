pub mod LineWords
pub mod Each
mod Runs
