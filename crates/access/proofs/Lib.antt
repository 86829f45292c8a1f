pub mod Reach
pub mod Moved
