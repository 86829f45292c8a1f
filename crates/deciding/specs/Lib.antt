pub mod Served
pub mod Decisions
