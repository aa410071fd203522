pub mod Rows
pub mod Chain
pub mod Table
pub mod Holding
pub mod Search
pub mod Record
