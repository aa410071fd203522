pub mod Found
pub mod Heads
pub mod InSlots
pub mod Places
pub mod Steps
pub mod Unknown
