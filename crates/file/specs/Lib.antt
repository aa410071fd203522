pub mod FileRead
