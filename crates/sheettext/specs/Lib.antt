pub mod Rows
pub mod Back
pub mod Steps
pub mod Trips
pub mod Arguments
pub mod Names
pub mod Files
