pub mod Registers
pub mod Mnemonics
pub mod Callers
