pub mod Trays
pub mod Unsolicited
