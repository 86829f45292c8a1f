-- The laws that the proofs of the crate's functions cite, and what a chain of feeds writes.
pub mod Lent
pub mod Answers
pub mod AnySession
pub mod Whole
