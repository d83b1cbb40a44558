pub mod Pointers
pub mod Replies
pub mod CommandOrbs
pub mod ManagementOrbs
pub mod LoginResponses
pub mod QueryResponses
pub mod StatusBlocks
pub mod ReadBack
