-- Laws of the code: cover on the entries of a rule, number 12.
pub mod Flags
pub mod Marks
pub mod Around
pub mod Hats
pub mod Opens
pub mod Covers
pub mod Indexes
pub mod Repeats
