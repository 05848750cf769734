pub mod Sound
pub mod Worth
