pub mod Offices
pub mod Calls
pub mod Terms
