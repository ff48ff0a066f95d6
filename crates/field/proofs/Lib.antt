pub mod Fields
pub mod Wides
