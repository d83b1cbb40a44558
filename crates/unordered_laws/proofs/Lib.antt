pub mod Rules
pub mod Apart
pub mod Tells
pub mod Busy
pub mod Order
pub mod Runs
pub mod Fetches
pub mod States
