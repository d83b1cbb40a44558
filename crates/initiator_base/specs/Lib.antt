pub mod Quads
pub mod Places
pub mod Fifos
