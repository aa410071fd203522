pub mod Names
pub mod Said
pub mod Task
pub mod Printing
pub mod Refusing
pub mod Misusing
