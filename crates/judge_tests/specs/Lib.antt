-- What the functions for other languages answer.
pub mod Asked
