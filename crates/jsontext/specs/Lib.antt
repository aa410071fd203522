pub mod Line
pub mod Places
pub mod Labels
pub mod Lines
pub mod Runs
pub mod Totals
