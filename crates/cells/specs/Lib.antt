-- The cells as one column of plain numbers, and what is left of it where live spaces have their frames.
pub mod Weights
pub mod Left
