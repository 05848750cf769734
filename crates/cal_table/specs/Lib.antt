-- What is claimed: the table of a document.
pub mod Tables
-- Workings: what a writer of records holds between two of them.
pub mod Records
