pub mod Fine
pub mod Raised
