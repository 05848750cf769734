-- What a phase is, and the energy of its constitutions.
pub mod Constitutions
pub mod Shapes
pub mod Parameters
pub mod Mixing
pub mod Magnetism
pub mod Energies
pub mod Worth
pub mod Lattices
-- What every phase and every system keeps, and how many lists of counts they have.
pub mod Capped
pub mod Phases
pub mod Points
pub mod Systems
-- What a system is asked for.
pub mod Jobs
-- How large contents are: lemmas for proofs.
pub mod Sizes
-- The order of constitutions.
pub mod Order
-- How counts are kept.
pub mod Sublattices
