mod Decimals
pub mod Hexadecimal
