pub mod Page
pub mod Texts
pub mod Files
pub mod Called
pub mod Tried
