-- What tests in other languages ask of the term layer.
pub mod Asked
