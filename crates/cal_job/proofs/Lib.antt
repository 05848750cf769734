pub mod Capping
pub mod Items
pub mod Listing
pub mod Commands
