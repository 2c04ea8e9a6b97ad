-- What the C call has besides the verdict.
pub mod Version
