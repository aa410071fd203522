pub mod Series
pub mod Names
pub mod Sheeted
pub mod Steps
pub mod Stated
