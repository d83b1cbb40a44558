pub mod Sums
pub mod Tally
pub mod Summary
pub mod Words
pub mod Disks
pub mod Laws
