pub mod Series
pub mod Laws
pub mod Table
