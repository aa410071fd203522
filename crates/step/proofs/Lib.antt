-- Laws of judging and of stores. Assumes nothing.
pub mod Judging
pub mod Putting
