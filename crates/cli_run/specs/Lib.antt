pub mod Input
pub mod Items
pub mod Told
pub mod From
