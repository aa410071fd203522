pub mod Said
pub mod Served
pub mod Gathered
pub mod Gathering
