-- What is claimed: what the steps of a run are, and why the next has no answer; what a run prints.
pub mod Steps
pub mod Outputs
-- Workings: what a run keeps of the steps that it made, and what of them was printed.
pub mod Workings
