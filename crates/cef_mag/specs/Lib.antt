-- The low and the high of the magnetic energy over a box.
pub mod Ranges
-- Terms that add to a Curie temperature or to a moment, and the energy of their sums.
pub mod Sums
-- The laws on which bounds of boxes rest.
pub mod Laws
-- Workings: each step of magnetism rises or falls with what it is made of, and so lies within its range.
pub mod Steps
pub mod Bounds
pub mod Sizes
-- Workings: the laws of terms carry over to their sums.
pub mod Summing
