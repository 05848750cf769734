-- What a sweep of phases under potentials answers.
pub mod Visits
pub mod Sweeps
-- What follows from the answer.
pub mod Trees
pub mod Answers
-- Workings: what is found of one box.
pub mod Findings
