pub mod Steps
pub mod Sources
pub mod Folding
