-- The phase of the tests.
pub mod Fixtures
