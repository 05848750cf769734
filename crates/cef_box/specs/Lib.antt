-- Boxes and their members.
pub mod Boxes
-- Which boxes have members; tightened boxes, corner points, and the parts of a box.
pub mod Tight
pub mod Corners
pub mod Cuts
-- Parts of an energy, with their bounds over boxes.
pub mod Terms
-- How ranges are kept.
pub mod Flat
