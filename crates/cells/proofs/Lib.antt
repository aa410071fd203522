pub mod Cells
pub mod Tasks
pub mod Puts
