pub mod World
pub mod Delivered
pub mod Answers
pub mod Tabled
pub mod Added
