pub mod Adding
pub mod Digits
pub mod Values
pub mod Lines
pub mod Places
pub mod RoundTrip
pub mod FirstWrong
pub mod Examples
