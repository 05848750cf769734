-- What is claimed: the laws of an exchange and of a basis' rows, how large their numbers are, what a step does, and what idle weights do.
pub mod Laws
pub mod Bounds
pub mod Descents
pub mod Idle
-- The words that the laws use: bases with their rows and potentials, and lists in lexicographic order.
pub mod Bases
pub mod Orders
