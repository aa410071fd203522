pub mod Arguments
pub mod BenchText
pub mod Examples
