pub mod Blamed
