pub mod Layers
pub mod Answers
pub mod Labels
pub mod Sides
pub mod Transactions
pub mod Judgements
pub mod Moves
