pub mod ReadBack
pub mod RoundTrip
pub mod Stepping
pub mod Options
pub mod Lines
pub mod Filing
