-- The phases that tests are made of.
pub mod Samples
