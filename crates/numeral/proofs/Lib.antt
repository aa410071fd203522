pub mod Formula
pub mod Prefix
pub mod Reading
pub mod Lead
pub mod Sign
pub mod Answers
