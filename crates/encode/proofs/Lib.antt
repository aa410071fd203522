pub mod Readings
pub mod Shaped
pub mod Operations
pub mod Instructions
pub mod Callers
