pub mod Table
pub mod Record
pub mod Labelled
pub mod Numbers
