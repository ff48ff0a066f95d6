pub mod Keys
pub mod Pushing
pub mod Rows
