pub mod Columns
pub mod Counting
pub mod Walking
pub mod Marks
pub mod Texts
pub mod Telling
pub mod Speaking
pub mod Reasons
