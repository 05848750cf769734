-- claims: what every database keeps of its expressions, and which texts they are written as
pub mod Forms
pub mod Grammar
-- workings: what the code reads at the front of a text
pub mod Parts
pub mod Reading
