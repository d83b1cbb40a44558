pub mod Judged
pub mod Unique
pub mod RoundTrip
pub mod Spelled
pub mod Headers
