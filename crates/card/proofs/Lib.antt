pub mod CardParts
pub mod Joined
pub mod OneCard
pub mod Placed
pub mod RowOctets
