pub mod Manual
pub mod Samples
pub mod OperationWords
