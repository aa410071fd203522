pub mod Line
pub mod Steps
