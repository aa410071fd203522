mod Forms
mod Words
mod Operands
mod Remainder
mod Written
mod Displaced
mod HeadsFound
mod Coded
mod Operations
mod Instructions
pub mod Callers
