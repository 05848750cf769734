pub mod Loops
pub mod Apart
pub mod Lists
pub mod Readings
pub mod Ranging
