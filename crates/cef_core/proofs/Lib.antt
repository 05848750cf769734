pub mod Parts
pub mod Flats
pub mod Written
pub mod Contents
mod Worked
pub mod Capped
pub mod Counting
pub mod Product
pub mod Adding
