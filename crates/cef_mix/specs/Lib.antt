-- What a table of mixing is of, and the least of its energies less a slope.
pub mod Mixes
-- Workings: what a table keeps.
pub mod Tables
