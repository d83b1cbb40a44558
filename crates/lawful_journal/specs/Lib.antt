pub mod Telling
pub mod Determined
