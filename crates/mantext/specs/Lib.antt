pub mod Manlist
