-- The bound of a box, and the multipliers that are chosen for it.
pub mod Bounds
pub mod Choosing
-- The same with planes below the parameters.
pub mod Affine
-- How large the energies of a phase are: lemmas for proofs.
pub mod Sizes
-- Workings: the terms of a phase and its magnetism, what a phase as the sum of its parts keeps, what a walk over its
-- sublattices rests on, the best of a list.
pub mod Kinds
pub mod MagneticTerms
pub mod Sums
pub mod Walks
pub mod Firsts
-- Workings: what a phase keeps to form the planes of all its parameters.
pub mod Planes
