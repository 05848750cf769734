-- What it means that a report holds.
pub mod Assemblages
pub mod Holding
-- What shows it.
pub mod Certificates
-- What is asked, and which totals a system can have.
pub mod Feasibility
-- The text of a report, and which reports have one.
pub mod Texts
pub mod Spelled
