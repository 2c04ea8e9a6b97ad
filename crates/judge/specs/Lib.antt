-- What a certificate claims and why, in the order of document 01: certificates and files, the intruder and runs, hats
-- and cover, the conditions; each decided; what a verdict means, and the verdict.
pub mod Certificate
pub mod File
pub mod Run
pub mod Hat
pub mod Cover
pub mod Conditions
pub mod Foreign
pub mod Decisions
pub mod Meaning
pub mod Verdict
-- What is made of a verdict: number, block and place, the refused part, the line.
pub mod Answer
pub mod Values
pub mod Line
-- Checks that count: one, and many for eight loaders.
pub mod Checked
pub mod Calls
-- What the parts of the code promise to each other.
pub mod Judgement
pub mod Laid
pub mod Listed
pub mod CoverEntries
