pub mod Script
pub mod Events
pub mod Runner
pub mod Drilling
pub mod Legal
