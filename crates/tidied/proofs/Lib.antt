pub mod Adding
pub mod Colons
pub mod Copying
pub mod Answers
