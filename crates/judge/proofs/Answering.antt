-- Laws of what is made of a verdict: number, block and place, the packed answer, the line.
pub mod Answers
pub mod Packed
pub mod Digits
pub mod Printing
pub mod Loaders
