-- claims: the functions, the piece that holds, values and their refusals, and that there is one outcome
pub mod Functions
pub mod Pieces
pub mod Values
pub mod Stops
pub mod Outcomes
-- workings: how far a reading has come
pub mod Marks
pub mod Progress
pub mod Chains
pub mod States
-- what is kept from one value to the next
pub mod Keeping
