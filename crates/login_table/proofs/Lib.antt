pub mod Searching
pub mod Counting
pub mod Sound
pub mod Kept
pub mod Listed
pub mod Holding
pub mod Laws
pub mod Units
