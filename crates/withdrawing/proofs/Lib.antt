-- Laws of this crate.
pub mod Sets
pub mod Emptying
pub mod Freeing
pub mod Resetting
pub mod Done
