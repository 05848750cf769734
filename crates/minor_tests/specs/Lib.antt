-- The phases that tests of minorants are made of.
pub mod Samples
