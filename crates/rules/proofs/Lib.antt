pub mod Fields
pub mod Lines
pub mod Standing
pub mod Names
pub mod Readings
pub mod Operands
pub mod Tables
pub mod Chain
