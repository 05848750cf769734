pub mod Spaced
pub mod Joined
pub mod Counts
pub mod Sayings
pub mod Nodes
pub mod Entries
pub mod Trees
pub mod Reports
