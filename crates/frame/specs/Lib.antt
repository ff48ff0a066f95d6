pub mod Faults
pub mod Messages
pub mod Octets
pub mod Reading
pub mod RoundTrip
pub mod Rules
pub mod Values
pub mod Writing
