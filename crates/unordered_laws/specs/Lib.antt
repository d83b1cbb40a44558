pub mod Calls
pub mod Apart
pub mod Notes
pub mod Stages
pub mod Order
pub mod Fetches
pub mod States
