pub mod Back
pub mod Writing
pub mod StatusBack
pub mod QueryBack
pub mod Front
pub mod Spelled
pub mod StatusForth
