pub mod Totals
pub mod Lines
pub mod Source
pub mod Called
