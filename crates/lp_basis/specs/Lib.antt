-- What is claimed: columns and their sums, the rows that are held of a basis, its potentials.
pub mod Columns
pub mod Held
pub mod Potentials
-- Workings: when products fit 128 bits, and the parts of an exchange.
pub mod Rows
pub mod Steps
