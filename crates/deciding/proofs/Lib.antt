pub mod Touches
pub mod Served
pub mod Decided
