-- What is claimed: which equilibria are answered, and why there is none.
pub mod Answers
pub mod Equilibria
pub mod Sweeps
pub mod Modelled
-- Workings: known constitutions and their columns, rounds over them, and the numbers of a plan.
pub mod Points
pub mod Knowing
pub mod Rounds
pub mod Finding
pub mod Reporting
pub mod Figures
pub mod Prices
pub mod Greatest
