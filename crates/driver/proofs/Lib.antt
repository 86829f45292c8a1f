pub mod Heard
pub mod Pieces
pub mod Served
pub mod Turned
pub mod Whole
