-- The meaning of the byte layer, in the order of document 01, "Blocks of 512 bytes".
pub mod Kinds
pub mod Limits
pub mod Block
pub mod Check
pub mod Layout
-- What the parts of the code promise to each other on the way to A and B.
pub mod Columns
