pub mod SenseData
pub mod Commands
