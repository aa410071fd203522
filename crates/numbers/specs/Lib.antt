pub mod Said
pub mod Ran
