pub mod Assembled
pub mod ManualSizes
