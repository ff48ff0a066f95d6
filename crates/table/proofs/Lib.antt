pub mod Apart
pub mod Changed
pub mod Every
pub mod Kept
pub mod Laws
