pub mod BenchWords
pub mod Steps
pub mod Conditions
pub mod BenchRuns
pub mod EveryStep
pub mod BenchCall
