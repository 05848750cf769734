-- What is claimed: the rules of a report, each at its lines, and what a fault says.
pub mod Rules
pub mod Trees
pub mod Faults
pub mod Words
pub mod Places
-- Workings: entries that are summed, what is found of a node and of the rules in order, numbers in
-- two halves, and boxes that wait for their nodes.
pub mod First
pub mod Entries
pub mod Nodes
pub mod Joined
pub mod Judging
pub mod Waits
