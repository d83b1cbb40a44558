pub mod Pairs
pub mod Quads
pub mod Traces
pub mod Numbers
pub mod DiskSums
pub mod Tallies
