-- The machine's definitions. Assumes nothing.
pub mod Form
pub mod Decode
pub mod Flags
pub mod Machine
pub mod Bench
pub mod Samples
