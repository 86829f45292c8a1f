-- Laws of this crate.
pub mod Defaults
pub mod Filled
pub mod Ranges
pub mod Closed
pub mod Freed
pub mod Withdrawn
