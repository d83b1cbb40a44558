pub mod Tables
pub mod Shapes
pub mod Drills
pub mod Reading
pub mod Shaped
pub mod Silent
