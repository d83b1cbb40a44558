pub mod Chunks
pub mod Runs
pub mod Checks
pub mod Replies
pub mod Registers
pub mod Working
