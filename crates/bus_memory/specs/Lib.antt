pub mod Windows
pub mod Memory
pub mod Access
pub mod Laws
