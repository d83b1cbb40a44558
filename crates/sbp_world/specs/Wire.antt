pub mod Knows
pub mod Wires
pub mod History
pub mod Journal
pub mod Lines
pub mod States
pub mod Keeping
