pub mod Disk
pub mod Units
pub mod Requests
pub mod Checks
pub mod Runs
pub mod Calls
pub mod Blocks
pub mod Held
