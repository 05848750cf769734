pub mod Fractions
pub mod Branching
pub mod Moments
pub mod Energies
pub mod Adding
