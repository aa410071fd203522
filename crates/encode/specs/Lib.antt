pub mod Code
pub mod Near
pub mod Displacement
pub mod Operations
