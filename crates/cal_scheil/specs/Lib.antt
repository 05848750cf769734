-- What is claimed: what is asked of a path and what a walk keeps, what a step makes of it, and why there is none.
pub mod Accounts
pub mod Walks
pub mod Steps
-- The law of walks: the steps of a walk over one database are those of a path that holds.
pub mod Walked
-- Workings: lists that are made number by number.
pub mod Workings
