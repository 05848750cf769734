pub mod Values
pub mod Decimals
pub mod NameLists
pub mod Neighbours
