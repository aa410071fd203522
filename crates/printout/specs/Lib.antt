pub mod Printout
pub mod Shown
pub mod Rows
pub mod Examples
