pub mod Reading
pub mod Behind
pub mod Lines
