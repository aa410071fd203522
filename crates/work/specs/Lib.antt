pub mod Calls
pub mod Labels
pub mod Lines
pub mod Lists
pub mod Runs
pub mod Performed
pub mod Placed
pub mod Ran
