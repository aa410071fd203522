pub mod Stopped
pub mod Pass
pub mod Names
pub mod Progress
