pub mod Plain
pub mod Growing
pub mod Names
pub mod Writing
pub mod Accepted
