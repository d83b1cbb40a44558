pub mod Faults
pub mod Failing
pub mod Memory
pub mod Speeds
pub mod Quadlets
pub mod Update
