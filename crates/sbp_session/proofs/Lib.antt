pub mod Latest
pub mod Rows
