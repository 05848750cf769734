-- What is claimed: which system a report is judged by, the rules of a path and of a document, each at its lines, and what a fault says.
pub mod Systems
pub mod Paths
pub mod Faults
pub mod Documents
-- Workings.
pub mod Workings
