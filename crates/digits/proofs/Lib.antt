pub mod Writing
pub mod Decimals
pub mod Hexes
pub mod ReadsBack
