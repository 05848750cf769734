-- claims: what a reader found; the parts of commands: numbers, heads, lists of constituents, kinds, ranged texts
pub mod Finding
pub mod Numbers
pub mod Heads
pub mod Lists
pub mod Kinds
pub mod Ranges
-- workings: how a ranged text goes on behind a piece
pub mod Following
