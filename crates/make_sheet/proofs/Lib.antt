pub mod Summing
pub mod Holding
pub mod Naming
pub mod Feeding
pub mod Concluding
pub mod Saying
