pub mod Texts
pub mod Telling
