pub mod Parts
pub mod Next
pub mod Clauses
pub mod Shift
pub mod Directive
pub mod Data
pub mod Texts
pub mod Answers
