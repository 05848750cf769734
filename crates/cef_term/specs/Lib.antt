-- The low and the high of a parameter over a box.
pub mod Bounds
-- Workings: what a term keeps.
pub mod Kept
-- Workings: a term at lists of counts.
pub mod Counted
