pub mod Rows
pub mod Line
pub mod Script
pub mod Draws
pub mod Drill
