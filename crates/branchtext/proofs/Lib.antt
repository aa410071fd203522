pub mod TableInput
pub mod Under
