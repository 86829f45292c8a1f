-- The laws that the proofs of the crate's functions cite.
pub mod Replies
pub mod Rewrites
pub mod Lines
pub mod Spoken
pub mod Parts
pub mod Endings
pub mod Joined
