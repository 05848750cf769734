-- What is claimed: bytes, words and lines, names, numbers, what stands at the front of a text.
pub mod Bytes
pub mod Words
pub mod Lines
pub mod Names
pub mod Numbers
pub mod Fronts
pub mod FrontTokens
pub mod Cuts
pub mod Copies
pub mod Constituents
-- Workings: the order in which words are compared.
pub mod Keys
