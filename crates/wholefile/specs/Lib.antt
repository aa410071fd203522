pub mod Beside
pub mod Limit
pub mod Put
pub mod Shelf
pub mod Slots
