pub mod Room
pub mod Statuses
pub mod Decisions
pub mod Machine
pub mod Laws
pub mod Rows
pub mod Effects
