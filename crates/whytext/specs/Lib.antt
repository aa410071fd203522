pub mod WhyLine
pub mod Verdicts
