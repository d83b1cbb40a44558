pub mod MediaLists
pub mod CheckLemmas
pub mod AnswerLemmas
pub mod AttentionLemmas
pub mod KeyLemmas
pub mod BlockLemmas
pub mod ReadLemmas
mod PlainChecks
