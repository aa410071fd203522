pub mod Checks
pub mod Numerals
