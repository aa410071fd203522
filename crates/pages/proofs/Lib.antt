pub mod Passing
pub mod Samples
pub mod Cutting
pub mod Parts
pub mod Filed
pub mod Calls
pub mod Tries
