pub mod RomListing
pub mod Meaning
