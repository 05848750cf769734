pub mod Entries
pub mod Found
pub mod Ratios
pub mod Forms
pub mod Folds
pub mod Types
pub mod Once
