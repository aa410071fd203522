pub mod Tallies
pub mod Adding
pub mod Reading
pub mod Owning
