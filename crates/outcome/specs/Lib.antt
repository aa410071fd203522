pub mod Made
pub mod Outcome
pub mod Reading
pub mod Joined
