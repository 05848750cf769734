-- What is claimed: sums, whole vectors and their products, the integer logarithm.
pub mod Sums
pub mod Vectors
pub mod Logarithm
-- Workings: laws of products and of floors, which proofs cite.
pub mod Whole
