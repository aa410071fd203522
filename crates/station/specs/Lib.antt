pub mod Station
pub mod Printed
pub mod Puts
pub mod Reads
pub mod Refused
pub mod Examples
