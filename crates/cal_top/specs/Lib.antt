-- What is claimed: what a run sees, what it replies and why, and where no cause of a refusal stands.
pub mod Seen
pub mod Texts
pub mod Equilibria
pub mod Paths
pub mod Documents
pub mod Replies
pub mod Complete
-- Workings: what the parts of a run say to one another.
pub mod Loading
pub mod Opening
pub mod Answers
