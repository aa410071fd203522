pub mod Refusal
pub mod Told
