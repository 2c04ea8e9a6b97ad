-- Laws of the code: the stage of numbers 1 to 8; the blocks of one kind and numbers 9 to 11; the verdict put together.
pub mod FormLaws
pub mod ListedLaws
pub mod Listing
pub mod Roots
pub mod Tables
pub mod Nonces
pub mod Numbers
pub mod Heads
pub mod JudgingLaws
