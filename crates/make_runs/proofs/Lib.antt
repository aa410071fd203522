-- Laws for the runs of a list. Assumes nothing.
pub mod Lists
pub mod Trying
