-- Laws for what is made of scripts. Assumes nothing.
pub mod Backs
pub mod Entries
pub mod Few
pub mod Fronts
pub mod Joins
pub mod Steps
pub mod Stating
