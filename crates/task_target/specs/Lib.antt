pub mod Sending
pub mod Nodes
pub mod Telling
pub mod Following
pub mod Replies
pub mod Serving
pub mod Receiving
pub mod Targets
