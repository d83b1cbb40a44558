pub mod TrayLemmas
pub mod BlockLemmas
