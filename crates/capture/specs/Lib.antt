pub mod Hexadecimal
pub mod Inspecting
pub mod Refusals
