-- Laws of specs/, for the proofs here and for those of the layers above.
pub mod Tests
pub mod KindLaws
pub mod Parts
pub mod Sums
pub mod ColumnLaws
pub mod Sealing
pub mod Noticing
pub mod Layouts
