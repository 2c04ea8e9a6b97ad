-- Laws that the functions' proofs cite.
pub mod AskedLaws
pub mod TallyLaws
