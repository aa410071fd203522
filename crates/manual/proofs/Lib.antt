pub mod Samples
pub mod OperationWords
