pub mod Signed
pub mod Sweep
pub mod Prefix
pub mod Pairs
pub mod Scan
pub mod Verdict
pub mod Callers
