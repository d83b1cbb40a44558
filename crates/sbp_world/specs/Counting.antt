pub mod Rooms
pub mod Left
pub mod Wire
pub mod Brings
pub mod Asking
pub mod Bounded
