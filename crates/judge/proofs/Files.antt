-- What the verdict of a file means; secrecy over accepted bytes; the worked cases.
pub mod Exact
pub mod AtomBlocks
pub mod Judged
pub mod LaidLaws
pub mod Members
pub mod ForeignLaws
pub mod Verdicts
pub mod Bytes
pub mod Spots
pub mod Cases
