pub mod Roms
