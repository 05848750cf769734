pub mod Kept
pub mod Longest
pub mod Spelling
