pub mod Sessions
pub mod Seats
pub mod Moves
pub mod Laws
