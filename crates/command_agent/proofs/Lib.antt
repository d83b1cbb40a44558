pub mod Limits
pub mod Fits
pub mod Losing
pub mod Counting
pub mod Making
pub mod Passing
pub mod Sound
