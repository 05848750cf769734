-- What is claimed, beside the text of a report in cef_report: the line of a fault.
pub mod Faults
-- Workings: words behind spaces, the words of each kind of line, lines one behind the other, and their values as fields.
pub mod Spacing
pub mod Kinds
pub mod Parsing
pub mod Fields
