pub mod Weights
pub mod Clearing
pub mod Whole
