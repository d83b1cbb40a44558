pub mod Chunks
pub mod Places
pub mod ElementSteps
pub mod Ends
