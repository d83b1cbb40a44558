-- The names from outside that proofs of this crate cite.
pub mod Std
pub mod Wire
pub mod Target
pub mod Initiator
pub mod Laws
pub mod World
