pub mod RatioTest
pub mod Moving
pub mod Improvement
pub mod Ending
