pub mod Few
pub mod Places
pub mod Read
pub mod Moves
pub mod Copies
pub mod Rows
pub mod Programs
