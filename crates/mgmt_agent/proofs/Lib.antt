pub mod Lookup
pub mod Outcomes
pub mod Whole
pub mod Rows
pub mod Asking
pub mod Effects
pub mod Doing
pub mod Places
