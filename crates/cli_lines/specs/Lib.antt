pub mod Lines
pub mod Folded
pub mod Answered
pub mod State
pub mod Stated
