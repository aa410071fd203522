pub mod Counting
pub mod Next
pub mod Order
pub mod Listing
pub mod Call
