pub mod Lists
pub mod Products
pub mod Next
pub mod Held
pub mod Placed
pub mod UnitRows
pub mod Summing
pub mod Pricing
