pub mod Making
pub mod Tallied
pub mod Told
