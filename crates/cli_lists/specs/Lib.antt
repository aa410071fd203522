pub mod Listed
pub mod Assembled
pub mod Moved
pub mod Tidied
pub mod Checked
pub mod Stations
