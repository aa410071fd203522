pub mod Recorded
pub mod Replay
