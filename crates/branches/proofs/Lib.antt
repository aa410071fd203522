pub mod Others
pub mod Laws
pub mod Under
pub mod Callers
