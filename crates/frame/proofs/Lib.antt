pub mod Made
pub mod Placed
pub mod RoundTrips
