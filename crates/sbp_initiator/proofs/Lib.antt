pub mod Roms
pub mod Asked
pub mod Layers
pub mod Again
pub mod Sound
pub mod Answered
pub mod Refused
pub mod FirstRow
pub mod Histories
mod Zeros
pub mod Quiet
pub mod Answering
pub mod Handing
pub mod Quadlets
