pub mod Texts
pub mod Making
pub mod Spelling
pub mod Printing
pub mod Causes
pub mod Replying
