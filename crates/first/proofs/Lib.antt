pub mod Turns
pub mod Naming
pub mod Bounds
pub mod Passing
pub mod Underway
pub mod Callers
pub mod Entering
