pub mod Kind
pub mod Operation
