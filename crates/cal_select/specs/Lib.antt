-- What is claimed: what is selected, the numbers and the parameters of phases, the system, and all causes of a refusal in
-- their order.
pub mod Valuations
pub mod Chosen
pub mod Wholes
pub mod Types
pub mod Parameters
pub mod Selection
pub mod Causes
-- Workings: what is known before the limits are tested.
pub mod Measures
