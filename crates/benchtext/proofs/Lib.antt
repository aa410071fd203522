-- Laws for the texts of the bench. Assumes nothing.
pub mod Threshold
pub mod Counting
pub mod Rows
pub mod Tried
pub mod Examples
pub mod Numbers
pub mod Told
