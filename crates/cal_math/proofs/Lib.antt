pub mod Products
pub mod Vectors
pub mod Bezout
pub mod Divisors
