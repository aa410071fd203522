pub mod Inputs
pub mod Labels
pub mod Sheets
pub mod Examples
