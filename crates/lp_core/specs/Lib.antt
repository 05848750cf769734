-- What is claimed: which columns and targets fit, what a plan is, and what proves that there is none.
pub mod Fitting
pub mod Plans
-- Workings: how the phases begin and end, and the weights of a basis.
pub mod Ends
pub mod Starts
pub mod FirstPhase
pub mod SecondPhase
pub mod Weights
