pub mod Again
pub mod Found
pub mod Loops
pub mod Once
pub mod Readings
pub mod Sums
pub mod Values
pub mod Words
