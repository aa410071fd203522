pub mod Near
pub mod Verdict
pub mod Operand
pub mod Form
pub mod Lines
pub mod Called
