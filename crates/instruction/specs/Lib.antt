pub mod FirstPiece
pub mod Tail
pub mod Joined
pub mod Split
pub mod Size
