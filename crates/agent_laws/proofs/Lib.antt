pub mod Known
pub mod Places
pub mod Ahead
pub mod Lists
pub mod Order
pub mod Along
