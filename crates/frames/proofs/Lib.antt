-- Laws of this crate.
pub mod Inside
pub mod Clearing
pub mod Freeing
