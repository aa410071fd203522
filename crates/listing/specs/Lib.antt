pub mod Writer
pub mod Listing
pub mod Reading
pub mod Shown
pub mod RoundTrip
pub mod Examples
