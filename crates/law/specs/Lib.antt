pub mod Costs
pub mod Energy
pub mod Examples
pub mod Hops
