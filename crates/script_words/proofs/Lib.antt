mod Numerals
pub mod Blocks
pub mod Lists
pub mod Tables
