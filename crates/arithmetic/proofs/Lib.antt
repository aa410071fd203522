-- Laws of signed numbers and of tests of two signs. Assumes nothing.
pub mod Conditions
pub mod Signs
