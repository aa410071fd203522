-- Laws of a run. Assumes nothing.
pub mod Going
pub mod Checks
