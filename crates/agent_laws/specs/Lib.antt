pub mod Calls
pub mod Buffers
pub mod Answers
pub mod Transactions
pub mod Wire
pub mod Bells
pub mod Deaths
pub mod Along
