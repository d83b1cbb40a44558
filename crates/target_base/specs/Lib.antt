pub mod Addresses
pub mod Places
pub mod Beginning
pub mod Logins
