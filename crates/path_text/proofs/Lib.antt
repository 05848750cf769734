pub mod Joins
pub mod Sayings
pub mod Paths
pub mod Records
pub mod Others
pub mod Documents
