pub mod Valid
pub mod Passes
pub mod Entries
pub mod Above
