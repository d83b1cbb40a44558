pub mod Canonical
pub mod Fields
pub mod Digits
pub mod Pairs
