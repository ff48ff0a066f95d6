pub mod Groups
pub mod Laws
pub mod Listed
pub mod Splitting
