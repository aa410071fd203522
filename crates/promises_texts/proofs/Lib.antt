pub mod Fronts
pub mod Numerals
pub mod ReadBack
pub mod Added
pub mod LabelTexts
