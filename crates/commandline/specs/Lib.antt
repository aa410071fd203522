pub mod Table
pub mod Number
pub mod Words
pub mod Asked
pub mod Message
pub mod Start
pub mod Help
