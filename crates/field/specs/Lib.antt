pub mod Addresses
pub mod Bits
pub mod Codes
pub mod Wide
