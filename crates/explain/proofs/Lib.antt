mod Fits
mod Placed
mod Trying
mod Operations
pub mod Lines
mod Writing
pub mod Tabled
pub mod Called
