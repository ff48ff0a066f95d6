pub mod Faults
pub mod Lawful
pub mod Records
pub mod Settings
pub mod Settling
pub mod States
pub mod Symmetry
pub mod Tuning
