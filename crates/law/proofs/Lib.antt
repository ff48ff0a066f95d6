pub mod Rules
pub mod Weights
