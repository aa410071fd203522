pub mod Refusals
pub mod Shown
pub mod Said
pub mod Reason
pub mod Stated
pub mod Examples
