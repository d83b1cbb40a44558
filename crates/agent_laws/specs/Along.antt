pub mod Lists
pub mod Along
pub mod Requests
pub mod Steps
pub mod Calls
pub mod Laws
pub mod Tried
