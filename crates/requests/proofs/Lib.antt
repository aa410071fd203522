pub mod Places
pub mod FormVerdicts
pub mod Answers
pub mod Mnemonics
pub mod TidyExamples
