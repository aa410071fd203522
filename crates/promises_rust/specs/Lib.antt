pub mod RustStr
pub mod RustAssembler
pub mod RustLists
pub mod RustSums
