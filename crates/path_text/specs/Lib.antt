-- What is claimed, beside the text of a path in cef_path: the text of a document, and the line of a fault.
pub mod Documents
-- Workings: the words of each kind of line, lines one behind the other, and their values as fields.
pub mod Kinds
pub mod Parsing
pub mod Fields
pub mod Choices
