pub mod Checks
pub mod Done
