pub mod Readers
pub mod Values
