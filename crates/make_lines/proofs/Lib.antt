-- Laws for what is made of scripts. Assumes nothing.
pub mod Under
pub mod Entries
pub mod Front
pub mod Told
pub mod Few
