pub mod Buffer
pub mod Elements
pub mod Ends
