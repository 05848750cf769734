-- Which parameters have a minorant, and which it is.
pub mod Forms
-- The signed products of a form.
pub mod Products
-- The slopes of their places.
pub mod Slopes
-- The plane below them.
pub mod Planes
-- Slopes that are added to.
pub mod Raised
-- What is known of it.
pub mod Laws
-- Workings: what the code is given.
pub mod Kept
