pub mod Whole
pub mod Silent
pub mod Steps
