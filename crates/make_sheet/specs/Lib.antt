pub mod Series
pub mod Held
pub mod Reading
pub mod Served
pub mod Stated
