pub mod Cards
pub mod Octets
pub mod Placing
