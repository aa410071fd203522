pub mod Symlist
pub mod Rows
