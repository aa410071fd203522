pub mod Lines
pub mod High
pub mod Checks
pub mod Callers
