pub mod Sum
pub mod Tree
pub mod Reading
pub mod Unit
pub mod Make
