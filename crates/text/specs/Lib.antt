pub mod Find
pub mod Pieces
pub mod Spans
pub mod Breaks
