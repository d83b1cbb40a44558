pub mod Media
pub mod Runs
