pub mod Boxes
pub mod Fine
