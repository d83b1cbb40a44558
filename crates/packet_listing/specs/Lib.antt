pub mod Listing
pub mod Meaning
