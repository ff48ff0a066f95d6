pub mod Fronts
pub mod Spelling
