pub mod Moments
pub mod Pointers
pub mod Bases
