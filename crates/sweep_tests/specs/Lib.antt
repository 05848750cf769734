-- Phases that can be swept.
pub mod Sweepable
