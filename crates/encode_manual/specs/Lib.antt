pub mod Code
pub mod Form
pub mod Displacement
pub mod Heads
