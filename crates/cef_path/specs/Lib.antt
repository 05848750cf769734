-- What a step leaves, when a path ends, and what it means that a path holds.
pub mod Ledgers
pub mod Finishing
pub mod Paths
-- The text of a path, and which paths have one.
pub mod Texts
pub mod Spelled
