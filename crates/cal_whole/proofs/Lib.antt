pub mod Quotients
pub mod Multiples
pub mod Ratios
