pub mod Distinct
pub mod Grouping
