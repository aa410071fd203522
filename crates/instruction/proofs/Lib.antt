pub mod Lists
pub mod FirstPiece
pub mod Tail
pub mod Joined
pub mod Split
pub mod Places
pub mod Initials
pub mod Size
