pub mod Requests
pub mod Table
pub mod Sound
pub mod Laws
