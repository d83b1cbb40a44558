pub mod Making
pub mod Weights
pub mod Handed
pub mod Leaving
