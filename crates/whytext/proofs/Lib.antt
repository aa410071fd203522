pub mod Told
pub mod Rows
