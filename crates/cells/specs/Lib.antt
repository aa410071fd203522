pub mod Cells
pub mod Sizes
pub mod Puts
