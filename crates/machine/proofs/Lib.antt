-- Laws of the machine's definitions. Assumes nothing.
pub mod Inverse
pub mod Running
pub mod Samples
