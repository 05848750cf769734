-- What is claimed: which column enters, which place it takes, where a phase stands, and how it runs.
pub mod Pricing
pub mod Leaving
pub mod Stages
pub mod Running
