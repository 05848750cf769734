-- All is claimed: what a common multiple is, and what an answer says of two numbers.
pub mod Divisors
pub mod Ratios
