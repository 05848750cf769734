-- What is claimed: the lines of a text, the place of its first fault, and the words of numbers and names.
pub mod Reading
pub mod Places
pub mod Words
pub mod Kinds
-- Workings: parts of a text of which there are several.
pub mod Choosing
