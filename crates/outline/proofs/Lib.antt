pub mod Lines
pub mod Defines
pub mod Looking
